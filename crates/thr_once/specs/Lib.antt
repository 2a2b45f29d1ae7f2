pub mod Values
pub mod Views
pub mod Room
