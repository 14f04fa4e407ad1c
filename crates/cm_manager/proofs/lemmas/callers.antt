pub mod CallerRuns
pub mod CallerStarts
pub mod CallerStops
pub mod CallerAnswers
