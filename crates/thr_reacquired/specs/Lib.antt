pub mod Waiters
pub mod Handling
