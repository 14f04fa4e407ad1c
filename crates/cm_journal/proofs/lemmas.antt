pub mod Made
pub mod Brought
pub mod Scripts
pub mod Runs
pub mod Streamed
pub mod Results
pub mod Spoken
