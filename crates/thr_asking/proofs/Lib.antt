pub mod PartLaws
pub mod AskedLaws
