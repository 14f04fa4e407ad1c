pub mod Begins
pub mod BeginReplies
pub mod Turning
pub mod Tryings
pub mod Onward
pub mod Readings
pub mod Streaming
pub mod BegunOnce
