pub mod Comparing
pub mod Orders
pub mod TextOrder
