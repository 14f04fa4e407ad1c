pub mod Next
pub mod Edges
pub mod Met
pub mod Shut
pub mod First
