pub mod Courses
pub mod Reaching
pub mod Sound
pub mod Returns
