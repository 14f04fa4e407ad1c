pub mod ScriptLaws
pub mod Stock
