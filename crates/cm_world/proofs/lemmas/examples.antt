pub mod Actions
pub mod Declarations
pub mod Expiries
pub mod Fresh
pub mod Picks
pub mod Routes
pub mod Shutdowns
