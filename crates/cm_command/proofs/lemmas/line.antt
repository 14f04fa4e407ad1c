pub mod LineGrammar
pub mod LineMachine
pub mod LineWords
pub mod Machine
pub mod SpacelessWords
pub mod Step
pub mod QuickWords
