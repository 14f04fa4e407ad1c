pub mod Loop
pub mod Outline
pub mod Scan
pub mod Char
pub mod String
pub mod Next
