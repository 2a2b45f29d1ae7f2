pub mod ArgumentLaws
pub mod CallSlots
pub mod Cuts
pub mod Digits
pub mod KnownLaws
