pub mod Trees
pub mod Links
