pub mod BlocksKept
pub mod RunsFit
pub mod BlockNames
