pub mod Gains
pub mod Mutexes
pub mod EightLines
