pub mod Chaining
pub mod Listing
