pub mod Children
pub mod Indexing
pub mod Naming
pub mod Preparing
pub mod Told
pub mod Words
