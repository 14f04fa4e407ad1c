pub mod MarksLast
pub mod Stable
