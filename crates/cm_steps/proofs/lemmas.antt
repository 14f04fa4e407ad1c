pub mod read
pub mod expiries
pub mod steps
pub mod actions
pub mod asked
pub mod Planning
pub mod Crossing
