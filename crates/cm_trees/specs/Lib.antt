pub mod Kids
pub mod Laws
pub mod LawsInside
pub mod Names
pub mod Reading
