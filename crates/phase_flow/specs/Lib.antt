pub mod Items
pub mod ItemOrders
pub mod Phases
pub mod PhaseLaws
