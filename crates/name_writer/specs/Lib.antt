pub mod Reading
pub mod Rewriting
pub mod Sweeps
