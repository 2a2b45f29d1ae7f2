pub mod FoldLaws
pub mod SharedLaws
pub mod TreeInduction
pub mod LineLaws
pub mod Crossing
