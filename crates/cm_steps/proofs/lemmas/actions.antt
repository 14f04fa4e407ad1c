pub mod Begun
pub mod Ends
pub mod Joined
pub mod Numbered
pub mod Waits
pub mod Picks
pub mod Enabled
pub mod Chosen
