pub mod Cover
pub mod Cut
pub mod Fault
pub mod Piece
pub mod Sound
