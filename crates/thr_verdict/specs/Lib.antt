pub mod Report
pub mod Verdicts
pub mod Made
pub mod Places
pub mod FormedJournals
pub mod FirstWrong
pub mod Computing
pub mod Samples
