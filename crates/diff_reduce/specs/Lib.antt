pub mod Stands
pub mod Changes
pub mod Later
pub mod TimedLaws
pub mod StandsLaws
pub mod StepLaws
