pub mod SpacedLaws
pub mod TreeTexts
pub mod ParseLaws
