pub mod Operations
