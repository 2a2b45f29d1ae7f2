pub mod Replies
pub mod Samples
