pub mod ways
pub mod descents
pub mod routes
