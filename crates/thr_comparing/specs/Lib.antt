pub mod Wrongs
pub mod Verdicts
