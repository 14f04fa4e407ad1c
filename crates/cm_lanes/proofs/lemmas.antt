pub mod lines
pub mod phases
pub mod merged
pub mod ends
pub mod Crossing
pub mod Captures
