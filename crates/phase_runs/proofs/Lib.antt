pub mod Changing
pub mod Phasing
pub mod Arcs
pub mod Answering
pub mod Joining
