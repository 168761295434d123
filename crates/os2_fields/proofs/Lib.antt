pub mod Laws
pub mod Tiling
pub mod Rows
