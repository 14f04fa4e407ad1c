pub mod Calling
pub mod Counting
pub mod Doings
pub mod Followings
pub mod Helping
pub mod Joining
pub mod Keeping
pub mod Sixteen
