pub mod Graphs
pub mod Rings
pub mod Further
pub mod Named
pub mod Leading
pub mod Walking
pub mod Unwanted
