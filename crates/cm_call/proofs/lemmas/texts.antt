pub mod Word
pub mod Generator
