pub mod SharedLaws
pub mod Crossing
