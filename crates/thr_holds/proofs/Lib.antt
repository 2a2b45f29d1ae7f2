pub mod Crossing
mod Holds
mod Stops
