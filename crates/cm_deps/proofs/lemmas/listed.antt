pub mod Listing
pub mod Gathering
pub mod Toposorting
pub mod Topological
pub mod Reversing
pub mod Shaping
