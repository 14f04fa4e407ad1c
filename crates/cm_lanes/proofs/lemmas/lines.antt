pub mod Performing
pub mod Parting
