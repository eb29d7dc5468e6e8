pub mod Metric
pub mod Times
pub mod Nearest
pub mod Below
pub mod Around
pub mod Walks
pub mod Links
pub mod Results
