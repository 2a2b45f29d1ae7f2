pub mod Names
pub mod Exceptions
pub mod Ranks
pub mod Replies
pub mod Words
