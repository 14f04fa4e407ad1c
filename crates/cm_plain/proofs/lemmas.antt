pub mod Tree
pub mod Value
pub mod Plain
pub mod Piece
pub mod Loose
