pub mod Acceptances
pub mod Theorems
pub mod Refusings
pub mod Numbers
