pub mod Questions
pub mod Cases
pub mod Settled
