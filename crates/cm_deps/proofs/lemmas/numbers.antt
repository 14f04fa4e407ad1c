pub mod Numbering
pub mod Placing
pub mod Existing
pub mod Realms
pub mod Depending
pub mod Increasing
