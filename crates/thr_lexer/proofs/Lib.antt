pub mod Pieces
pub mod Canon
pub mod OfLine
pub mod Shorter
pub mod Faultless
