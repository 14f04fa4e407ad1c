pub mod Folding
pub mod Dooming
pub mod Going
