pub mod Behind
pub mod Drops
pub mod EachItem
pub mod Editing
pub mod Fitting
pub mod BinarySearch
pub mod Sought
