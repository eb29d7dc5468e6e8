mod Changed
mod Small
