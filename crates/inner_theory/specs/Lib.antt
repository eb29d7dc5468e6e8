pub mod Inside
pub mod InsideLaws
