pub mod TableText
pub mod Results
pub mod Changes
pub mod ChangeLaws
pub mod IdOrder
pub mod Laws
pub mod ResultsInside
