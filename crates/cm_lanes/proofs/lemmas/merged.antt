pub mod Queues
pub mod Weaving
