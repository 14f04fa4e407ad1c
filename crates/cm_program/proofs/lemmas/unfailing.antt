pub mod Ends
pub mod Results
pub mod Lines
pub mod Complete
