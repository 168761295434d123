pub mod Entries
pub mod Tables
pub mod Writing
pub mod WriteSettled
pub mod Promises
pub mod Replies
pub mod Faults
pub mod Examples
