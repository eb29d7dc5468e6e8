pub mod Filters
pub mod Transport
pub mod Choosing
pub mod Turning
pub mod Stepping
pub mod Lasting
