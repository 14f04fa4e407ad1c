pub mod Answering
pub mod Searching
pub mod Choosing
pub mod Turns
pub mod Weights
pub mod Going
pub mod Reaching
pub mod Upward
