pub mod Telling
pub mod Delivering
