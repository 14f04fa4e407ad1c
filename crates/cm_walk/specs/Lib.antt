pub mod Ahead
pub mod Laws
pub mod Leading
pub mod Walking
