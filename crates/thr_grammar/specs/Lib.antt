pub mod Printing
pub mod Parsing
