pub mod Acceptance
pub mod Settled
pub mod Demands
pub mod Replies
