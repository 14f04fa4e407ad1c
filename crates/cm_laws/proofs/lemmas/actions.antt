pub mod Tasks
pub mod Numbers
pub mod Begun
pub mod Ends
pub mod Others
pub mod Beginners
pub mod Known
pub mod Outcomes
