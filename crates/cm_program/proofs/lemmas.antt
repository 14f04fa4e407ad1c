pub mod Asking
pub mod Closed
pub mod links
pub mod whole
pub mod texts
pub mod lanes
pub mod Statuses
pub mod unfailing
