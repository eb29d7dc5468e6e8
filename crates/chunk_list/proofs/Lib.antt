pub mod Filled
pub mod Memory
pub mod Pieces
pub mod Sharing
