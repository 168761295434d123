pub mod KeyNumbers
pub mod Merges
pub mod Rows
pub mod Exactly
pub mod Theorems
pub mod Numbers
pub mod Worked
pub mod Saying
