pub mod Mapped
pub mod Kept
pub mod Named
pub mod Rows
pub mod Acyclic
