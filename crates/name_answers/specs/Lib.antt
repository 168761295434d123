pub mod Forms
pub mod Names
pub mod Versions
pub mod WellFormed
pub mod ExactNames
pub mod ExactVersions
