pub mod Characters
pub mod Spelling
pub mod Tokens
pub mod Reading
pub mod Lexing
pub mod Printing
