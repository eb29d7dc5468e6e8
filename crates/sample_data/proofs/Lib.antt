pub mod Digits
pub mod Unrolled
