pub mod Cuts
pub mod Low
pub mod Named
pub mod Declared
pub mod Created
pub mod Told
pub mod Arrows
