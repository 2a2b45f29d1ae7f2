pub mod OrderLaws
pub mod ValueLaws
pub mod KeyLaws
pub mod CallLaws
pub mod Crossing
