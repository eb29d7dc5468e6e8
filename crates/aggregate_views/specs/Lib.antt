pub mod Rows
pub mod Changes
pub mod ChangeLaws
pub mod SameTotals
pub mod Coding
pub mod Tables
pub mod Keeping
pub mod Inside
