pub mod Signs
pub mod Steps
pub mod Rewriting
pub mod Numbers
pub mod Saying
