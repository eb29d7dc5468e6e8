pub mod Inputs
pub mod Loops
pub mod Rounds
pub mod LapLaws
pub mod LoopLaws
pub mod TimeLaws
pub mod RunLaws
pub mod Underway
