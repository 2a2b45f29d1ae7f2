pub mod Judging
pub mod Placing
pub mod Ids
pub mod Misnamed
