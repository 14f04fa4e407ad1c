pub mod examples
pub mod reading
pub mod Row
pub mod Text
pub mod back
pub mod In
pub mod ByTwos
