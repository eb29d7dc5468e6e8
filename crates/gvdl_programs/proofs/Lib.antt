pub mod ParameterFacts
pub mod Filling
pub mod Judgements
pub mod CallFacts
pub mod ExpressionCases
