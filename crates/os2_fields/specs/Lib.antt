pub mod Catalogue
pub mod Fields
pub mod Reading
pub mod Examples
