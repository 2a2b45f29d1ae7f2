pub mod Kinds
pub mod Names
pub mod Routines
pub mod Caught
pub mod Distinct
pub mod Computing
pub mod Samples
