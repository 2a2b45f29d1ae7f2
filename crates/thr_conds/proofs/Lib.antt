pub mod EarliestLaws
pub mod DueLaws
pub mod KeepLaws
pub mod TakingLaws
pub mod BroadcastLaws
pub mod AgreementLaws
pub mod Crossing
pub mod CallLaws
