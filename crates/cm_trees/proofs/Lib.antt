pub mod rows
pub mod names
pub mod levels
pub mod trees
