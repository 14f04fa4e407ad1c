pub mod Known
pub mod Interruptions
pub mod Ordering
pub mod InStep
pub mod Line
