pub mod Drops
pub mod Naming
pub mod Boundaries
pub mod Nexts
pub mod Endings
pub mod Openings
pub mod Said
pub mod Making
