pub mod Following
pub mod Bad
pub mod Refusing
pub mod Taking
