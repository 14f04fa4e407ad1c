pub mod Cutting
pub mod Order
pub mod Kept
pub mod Sessions
pub mod Callers
