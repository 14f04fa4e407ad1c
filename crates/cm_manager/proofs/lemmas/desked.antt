pub mod Moving
pub mod Clearing
