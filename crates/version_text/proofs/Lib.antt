pub mod Groups
pub mod Starts
pub mod Rules
pub mod Rows
