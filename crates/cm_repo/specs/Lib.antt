pub mod Answers
pub mod Blocks
pub mod BlocksInside
pub mod Resolved
pub mod Urls
pub mod UrlsInside
