pub mod Destructors
pub mod OnceRows
pub mod RunningDebts
pub mod CallsFollow
pub mod TurnsFollow
pub mod Room
