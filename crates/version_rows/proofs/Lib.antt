mod Changed
mod Counts
mod Small
mod Within
