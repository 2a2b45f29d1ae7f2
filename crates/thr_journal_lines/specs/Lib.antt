pub mod Arguments
pub mod Known
pub mod Numbers
pub mod Seen
pub mod Words
