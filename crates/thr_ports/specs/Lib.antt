pub mod Returning
pub mod Finallys
pub mod Signals
pub mod Broadcasts
