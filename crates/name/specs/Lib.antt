pub mod Refusals
pub mod Acceptance
pub mod Acceptable
pub mod Refusing
