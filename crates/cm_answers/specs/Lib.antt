pub mod Answers
pub mod AnswersInside
pub mod Lines
pub mod LinesInside
pub mod Questions
