pub mod Kinds
pub mod Terminals
pub mod Predicates
pub mod Expressions
pub mod Statements
pub mod Parsing
pub mod Script
pub mod Judging
