pub mod PairLaws
pub mod Elements
pub mod Walks
pub mod Outcomes
pub mod LaterLaws
pub mod Stepping
pub mod Rising
