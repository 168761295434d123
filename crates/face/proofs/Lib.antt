pub mod Answers
pub mod Families
pub mod Settling
pub mod Cases
pub mod Numbers
