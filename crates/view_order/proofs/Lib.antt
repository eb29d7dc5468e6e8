pub mod Tours
pub mod Ranges
