pub mod Going
pub mod Working
pub mod Places
