pub mod RunAnswers
pub mod WeightFacts
