pub mod SetLines
pub mod WritesNamed
pub mod DeclaredNames
pub mod DeclaredKept
