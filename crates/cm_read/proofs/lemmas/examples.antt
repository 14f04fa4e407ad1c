pub mod Examples
pub mod TextExamples
pub mod OnLiterals
