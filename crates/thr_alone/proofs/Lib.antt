pub mod OneHistory
