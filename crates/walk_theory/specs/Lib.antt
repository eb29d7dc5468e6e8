pub mod Walks
pub mod Laws
pub mod Joining
pub mod Turning
pub mod Weighing
pub mod Shortening
