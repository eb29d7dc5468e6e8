pub mod Truth
pub mod ViewEdges
