pub mod Sides
pub mod SendingLaws
pub mod BringLaws
