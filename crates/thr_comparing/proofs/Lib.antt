pub mod Equal
pub mod Texts
pub mod Told
