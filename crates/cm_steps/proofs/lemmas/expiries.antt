pub mod Dooming
pub mod Goers
pub mod Gathered
pub mod Removing
pub mod Closing
