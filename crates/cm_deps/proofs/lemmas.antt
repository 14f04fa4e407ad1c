pub mod listed
pub mod loops
pub mod numbers
pub mod given
