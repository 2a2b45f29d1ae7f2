pub mod WaitScripts
pub mod Words
