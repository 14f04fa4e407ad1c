pub mod Alike
pub mod Block
pub mod Examples
pub mod Url
