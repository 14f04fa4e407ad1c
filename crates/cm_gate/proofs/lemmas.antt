pub mod Asking
pub mod Looking
pub mod Prefixes
pub mod Logs
pub mod Crossing
