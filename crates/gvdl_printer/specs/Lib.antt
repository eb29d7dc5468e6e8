pub mod Names
pub mod Layout
pub mod Levels
pub mod Canonical
pub mod Pages
pub mod Again
