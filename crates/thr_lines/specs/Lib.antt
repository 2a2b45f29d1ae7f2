pub mod Rows
pub mod Layout
pub mod Tables
pub mod AtLines
