pub mod Plain
pub mod JsonTree
pub mod Relaxed
