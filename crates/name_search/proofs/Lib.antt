pub mod Halvings
pub mod Finds
pub mod Counts
pub mod Turns
pub mod Seeking
pub mod Rows
