pub mod Chunked
pub mod Ownership
pub mod Places
