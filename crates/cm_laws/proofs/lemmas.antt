pub mod entries
pub mod actions
pub mod levels
pub mod sound
pub mod lasting
pub mod clients
pub mod destroyed
pub mod AllLaws
