pub mod Limits
pub mod Capped
pub mod Widths
pub mod Walks
