pub mod Values
pub mod Asking
pub mod Reading
pub mod Replies
pub mod Settled
pub mod Demands
pub mod RoundTrips
pub mod Examples
