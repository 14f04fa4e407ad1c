pub mod Near
pub mod Name
pub mod Clash
pub mod Row
pub mod Pass
pub mod Cycle
pub mod Judging
