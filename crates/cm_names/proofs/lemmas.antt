pub mod Ends
pub mod prefixes
pub mod texts
pub mod sets
pub mod Crossing
