pub mod trees
pub mod examples
pub mod Crossing
