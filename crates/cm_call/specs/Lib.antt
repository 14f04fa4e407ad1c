pub mod Calls
pub mod CallsInside
pub mod Generated
pub mod GeneratedExamples
