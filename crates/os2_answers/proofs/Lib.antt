pub mod Cases
pub mod Settling
pub mod Agreeing
pub mod Trimming
pub mod RoundTrips
pub mod Refuting
pub mod Saying
pub mod Words
