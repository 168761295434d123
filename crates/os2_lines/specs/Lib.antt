pub mod Listings
pub mod Reading
pub mod Examples
