pub mod Steps
pub mod LineEnds
pub mod LineScans
pub mod FirstFaultLaws
pub mod FillingLaws
