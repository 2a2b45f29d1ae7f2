pub mod Alone
pub mod AloneKept
