pub mod Cuts
pub mod Pieces
pub mod Found
pub mod Runs
pub mod Parts
