pub mod Numbered
pub mod Spanning
pub mod ShortSpanning
pub mod Messages
