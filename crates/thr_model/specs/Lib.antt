pub mod States
pub mod Calls
pub mod Turns
pub mod Events
pub mod Histories
pub mod Play
pub mod Canonical
pub mod Computing
