pub mod Strings
pub mod Texts
pub mod Digits
