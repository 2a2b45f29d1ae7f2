pub mod Folds
pub mod Computing
pub mod Lines
pub mod Spelling
pub mod Canon
pub mod Shared
