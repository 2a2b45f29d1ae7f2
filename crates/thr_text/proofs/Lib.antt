pub mod HeadLaws
pub mod WordTables
pub mod FormLaws
pub mod TermLaws
pub mod FaultLaws
pub mod AnyMap
pub mod GroupLaws
pub mod HeadGroups
