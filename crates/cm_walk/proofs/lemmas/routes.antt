pub mod NoUse
pub mod Sources
pub mod Offers
pub mod Along
pub mod Trails
