pub mod Records
pub mod Cells
pub mod Living
pub mod Numbers
