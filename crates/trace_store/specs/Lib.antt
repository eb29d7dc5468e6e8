pub mod Layers
pub mod Stored
pub mod TraceLaws
pub mod Traces
