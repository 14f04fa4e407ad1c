pub mod Growing
pub mod Monikers
pub mod Written
pub mod back
