pub mod Ending
pub mod Paths
pub mod Standing
pub mod Tops
pub mod Trees
