pub mod Accepting
pub mod Trimming
pub mod Numbers
pub mod Saying
