pub mod Cases
pub mod Settling
