pub mod Answers
pub mod Lists
pub mod Numbers
pub mod Theorems
pub mod Ways
pub mod Worked
pub mod Saying
