pub mod Counts
pub mod Going
pub mod Starting
pub mod Telling
pub mod Stepping
pub mod Rooted
