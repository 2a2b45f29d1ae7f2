pub mod Carrying
pub mod Using
pub mod Making
pub mod Asides
pub mod Calling
pub mod Owning
