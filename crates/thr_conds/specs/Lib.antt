pub mod Agreement
pub mod Due
pub mod Taking
