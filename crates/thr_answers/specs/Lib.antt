pub mod Standing
pub mod Statuses
pub mod Owing
