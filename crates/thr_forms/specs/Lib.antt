pub mod Pending
pub mod FirstFaults
pub mod Filling
