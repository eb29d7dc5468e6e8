pub mod Blocks
pub mod Spelling
pub mod Reading
pub mod Writing
pub mod Laws
pub mod Memory
pub mod MemoryInside
pub mod Inside
