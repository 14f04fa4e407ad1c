pub mod Askers
pub mod Keepers
