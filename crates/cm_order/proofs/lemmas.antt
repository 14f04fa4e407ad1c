pub mod levels
pub mod searches
pub mod names
