pub mod Stacks
pub mod Runs
pub mod Passes
pub mod Replies
