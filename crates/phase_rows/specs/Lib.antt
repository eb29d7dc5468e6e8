pub mod Programs
pub mod Fits
