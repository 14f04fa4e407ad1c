pub mod Siblings
pub mod Apart
pub mod Onward
pub mod Offers
pub mod Replies
pub mod Laws
