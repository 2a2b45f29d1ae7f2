pub mod CancelLaws
pub mod ApartLaws
pub mod EndedLaws
