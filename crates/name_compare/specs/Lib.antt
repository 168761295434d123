pub mod Differences
pub mod Comparisons
pub mod Settled
pub mod Steps
pub mod Examples
