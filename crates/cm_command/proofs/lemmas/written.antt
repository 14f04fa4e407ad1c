pub mod ReadCommands
pub mod Writer
pub mod WritesLine
pub mod Written
