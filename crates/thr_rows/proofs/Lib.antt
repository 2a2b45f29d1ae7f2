pub mod AbleLaws
pub mod BestLaws
pub mod AgreementLaws
pub mod AgreedCalls
pub mod RoomLaws
pub mod RememberedLaws
pub mod WaitLaws
pub mod Crossing
