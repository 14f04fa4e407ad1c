-- What the lists of a level have.
pub mod Sources
