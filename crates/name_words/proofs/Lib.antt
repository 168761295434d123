pub mod ReadBack
pub mod Cases
