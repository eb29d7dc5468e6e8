pub mod NameFacts
pub mod PredicateCases
pub mod SingleFacts
pub mod AppendFacts
pub mod PlanAnswers
pub mod WindowFacts
pub mod PlanSteps
pub mod MarkFacts
