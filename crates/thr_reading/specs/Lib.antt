pub mod Running
pub mod Naming
