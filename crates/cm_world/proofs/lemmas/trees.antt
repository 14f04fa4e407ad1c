pub mod Chains
pub mod Climbing
pub mod Finding
pub mod Histories
pub mod Levels
pub mod Once
pub mod Walks
