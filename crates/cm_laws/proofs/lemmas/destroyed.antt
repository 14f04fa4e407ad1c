pub mod Standing
pub mod Naming
pub mod Rooted
pub mod Gone
