pub mod OnLiterals
pub mod Examples
pub mod Byte
pub mod pieces
pub mod found
pub mod Json
