pub mod Loops
pub mod Picking
pub mod Reaching
pub mod Ring
