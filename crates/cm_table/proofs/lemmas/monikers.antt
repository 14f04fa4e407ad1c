pub mod Hanging
pub mod Names
pub mod Standing
