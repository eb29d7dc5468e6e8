pub mod Words
pub mod WordLaws
pub mod Alike
pub mod Normal
pub mod Batches
pub mod WeightLaws
pub mod SumLaws
