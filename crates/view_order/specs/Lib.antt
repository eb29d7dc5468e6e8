pub mod Greedy
pub mod Places
