pub mod Tasks
pub mod Segments
pub mod Steps
