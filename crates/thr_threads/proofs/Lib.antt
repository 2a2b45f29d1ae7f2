pub mod RecordLaws
pub mod CellLaws
pub mod LivingLaws
pub mod Crossing
