pub mod KeyLaws
pub mod RemainderLaws
pub mod Crossing
