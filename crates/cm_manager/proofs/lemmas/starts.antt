pub mod Launches
pub mod Starts
