pub mod ReadingLaws
pub mod NamedThreads
pub mod NamedLocks
pub mod PassingLaws
pub mod PlainLaws
