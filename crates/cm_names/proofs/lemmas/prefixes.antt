pub mod Prefixes
pub mod MonikerPrefixes
pub mod MonikerGrammar
