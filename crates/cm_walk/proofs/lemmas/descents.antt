pub mod Behind
pub mod Adding
pub mod Descending
