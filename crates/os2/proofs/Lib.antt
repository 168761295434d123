pub mod Asked
pub mod Saying
pub mod Rows
