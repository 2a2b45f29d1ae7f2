pub mod Agreement
pub mod Entering
pub mod Opening
