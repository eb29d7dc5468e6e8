pub mod Unfinished
pub mod Counting
pub mod Choosing
