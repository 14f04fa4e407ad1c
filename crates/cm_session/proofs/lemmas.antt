pub mod spoken
pub mod links
pub mod work
pub mod ends
pub mod Captures
