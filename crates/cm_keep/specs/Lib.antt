pub mod Asked
pub mod Files
pub mod Keeping
pub mod Service
