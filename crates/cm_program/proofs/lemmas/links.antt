pub mod Attending
pub mod SessionLines
pub mod SessionLinks
pub mod SessionWorkers
pub mod Doors
