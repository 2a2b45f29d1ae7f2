pub mod Build
pub mod Levels
pub mod Trees
pub mod Placement
