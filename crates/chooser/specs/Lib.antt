pub mod Racks
pub mod Calls
pub mod Settled
pub mod Replies
