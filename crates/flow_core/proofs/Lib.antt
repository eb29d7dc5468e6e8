mod Walks
mod Rises
mod Least
mod Outcomes
