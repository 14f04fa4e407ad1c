pub mod Graphs
pub mod Listing
pub mod Naming
