pub mod Numerals
pub mod Lines
pub mod Pieces
