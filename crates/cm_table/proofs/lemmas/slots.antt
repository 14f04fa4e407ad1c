pub mod Joining
pub mod Linking
pub mod Numbers
pub mod Rowed
