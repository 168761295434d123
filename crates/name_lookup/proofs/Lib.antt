pub mod Theorems
pub mod Reports
pub mod Numbers
