pub mod children
pub mod graphs
