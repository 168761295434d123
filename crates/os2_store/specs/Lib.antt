pub mod Writing
pub mod WriteSettled
pub mod Storing
