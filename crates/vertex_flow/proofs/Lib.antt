pub mod Functions
pub mod Lasts
