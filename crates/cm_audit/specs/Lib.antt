pub mod Journal
pub mod Expected
pub mod Verdict
pub mod Reading
pub mod Laws
