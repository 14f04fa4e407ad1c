pub mod Spots
pub mod Levels
pub mod Search
pub mod Glances
pub mod Plans
pub mod Picking
pub mod Ways
pub mod Standing
