pub mod Monikers
pub mod Placed
pub mod Up
pub mod Leading
