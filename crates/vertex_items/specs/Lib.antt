pub mod Orders
pub mod InputOrders
pub mod Names
pub mod Given
pub mod Laws
pub mod GivenLaws
