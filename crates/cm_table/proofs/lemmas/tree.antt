pub mod Changes
pub mod First
pub mod Leaves
pub mod Removing
pub mod Resolving
pub mod Standing
pub mod Taking
pub mod Wanting
