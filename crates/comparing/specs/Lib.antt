pub mod Lists
pub mod Rooms
pub mod Comparisons
pub mod Settled
