pub mod Rises
pub mod Condensed
pub mod Joining
pub mod Gathering
