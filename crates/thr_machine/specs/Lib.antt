pub mod Views
pub mod Books
pub mod Stepping
