pub mod Reading
pub mod Reporting
pub mod Creations
pub mod Kids
pub mod Leading
pub mod Edges
