pub mod Layouts
pub mod Keys
pub mod Rows
