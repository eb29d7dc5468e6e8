pub mod Growing
pub mod Summing
pub mod Holding
