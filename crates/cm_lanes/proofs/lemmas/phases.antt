pub mod Rounds
pub mod Passing
pub mod Advancing
