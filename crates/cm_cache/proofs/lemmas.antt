pub mod puts
pub mod trees
pub mod histories
pub mod Crossing
