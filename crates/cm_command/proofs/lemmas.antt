pub mod counts
pub mod bytes
pub mod scripts
pub mod line
pub mod written
pub mod Crossing
