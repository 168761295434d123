pub mod Settling
pub mod Slots
pub mod Steps
pub mod Ranked
pub mod Numbers
