pub mod Script
pub mod ScriptInside
pub mod Lanes
pub mod Lane
pub mod Meeting
pub mod Phases
pub mod Merge
pub mod Laws
