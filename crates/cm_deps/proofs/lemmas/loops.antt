pub mod Ways
pub mod Rings
pub mod Cores
pub mod Searching
