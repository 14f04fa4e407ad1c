pub mod History
pub mod Room
pub mod Refusal
