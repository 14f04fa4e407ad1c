pub mod MonikerParts
pub mod NameBytes
pub mod Name
pub mod Path
pub mod Short
