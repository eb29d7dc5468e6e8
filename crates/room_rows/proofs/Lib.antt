mod Distinct
mod Fitting
mod Growing
mod Programs
mod Reading
mod SmallGraphs
