mod Walks
mod Dues
mod Laps
mod Outcomes
