pub mod Computed
pub mod FirstFaults
