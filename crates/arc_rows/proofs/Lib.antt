pub mod Counting
pub mod Placing
pub mod Grouping
pub mod Renewing
pub mod Picked
pub mod Leaving
pub mod Counted
