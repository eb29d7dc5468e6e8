pub mod Joins
pub mod GivenLaws
pub mod BoundLaws
pub mod Standing
pub mod ListLaws
pub mod PairLaws
pub mod RunLaws
pub mod StepLaws
