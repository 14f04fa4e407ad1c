pub mod Writing
pub mod WritingInside
