pub mod Each
pub mod Sorting
pub mod Order
pub mod Strict
pub mod ColumnFacts
pub mod JoinFacts
pub mod Growth
