pub mod Sameness
pub mod orders
pub mod cycles
pub mod faults
