pub mod Closed
pub mod Coming
pub mod Ending
pub mod Finishing
