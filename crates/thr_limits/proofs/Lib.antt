pub mod WidthLaws
pub mod DigitLaws
pub mod DepthLaws
pub mod CountLaws
pub mod ShortLaws
pub mod LineLimits
pub mod LineDepths
pub mod FormedLimits
