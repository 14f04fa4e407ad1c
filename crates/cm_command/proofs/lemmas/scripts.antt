pub mod Lane
pub mod Lines
pub mod OneScript
pub mod ScriptSteps
