pub mod Kids
pub mod Nodes
pub mod Shut
