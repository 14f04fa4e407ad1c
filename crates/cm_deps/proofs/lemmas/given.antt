pub mod Answering
pub mod Outcomes
pub mod Sourcing
pub mod Closing
pub mod OneMore
pub mod Picked
