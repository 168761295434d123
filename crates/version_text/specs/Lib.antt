pub mod Versions
pub mod Qualifying
pub mod Examples
