pub mod Cases
pub mod ReadBack
pub mod Compared
