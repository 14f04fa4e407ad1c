pub mod Closing
pub mod Closings
pub mod HavingEnds
pub mod Due
pub mod Standing
