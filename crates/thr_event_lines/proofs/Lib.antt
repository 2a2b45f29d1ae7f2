pub mod OneMutex
pub mod ShortSteps
pub mod ShortRuns
pub mod FewGifts
pub mod FewLines
