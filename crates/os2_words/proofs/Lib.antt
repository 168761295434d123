pub mod Writers
pub mod ReadBack
pub mod Cases
