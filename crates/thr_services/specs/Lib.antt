pub mod Views
pub mod Answers
pub mod Ready
pub mod Cancelling
pub mod Sound
pub mod Groups
