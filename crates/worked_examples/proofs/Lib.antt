pub mod Starred
pub mod Bits
pub mod Records
pub mod Which
pub mod Looks
pub mod Loads
