pub mod Leftovers
pub mod Listed
pub mod Moving
