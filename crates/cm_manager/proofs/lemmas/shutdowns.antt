pub mod Answering
pub mod ShuttingDown
pub mod Sweepings
