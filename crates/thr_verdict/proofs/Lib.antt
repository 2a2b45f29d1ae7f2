pub mod LegalLines
pub mod RightLines
