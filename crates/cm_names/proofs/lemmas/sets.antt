pub mod Bit
pub mod Join
pub mod Rights
pub mod Word
