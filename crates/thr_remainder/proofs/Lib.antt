pub mod ActLaws
pub mod SizeLaws
pub mod ValueLaws
pub mod SightLaws
pub mod StandingLaws
pub mod StepsKept
pub mod ScopeLaws
