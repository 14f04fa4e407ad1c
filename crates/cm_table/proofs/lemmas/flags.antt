pub mod Climbs
pub mod Flagging
pub mod Keeping
pub mod Kids
pub mod Marked
pub mod Passing
