pub mod Answers
pub mod AnswersInside
pub mod Places
pub mod Keeping
pub mod Right
pub mod Beside
pub mod Laws
pub mod Steps
