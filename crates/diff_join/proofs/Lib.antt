mod Walks
mod Pushing
mod Weights
mod Waiting
mod Keeping
mod Outcomes
