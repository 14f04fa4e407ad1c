pub mod Splitting
pub mod Keeping
pub mod Seeking
pub mod Finding
pub mod Within
