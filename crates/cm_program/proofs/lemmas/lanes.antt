pub mod Histories
pub mod OwnScript
pub mod Printing
pub mod Wanting
pub mod Sixteen
