pub mod Accepts
pub mod Spreading
pub mod Putting
pub mod Visits
