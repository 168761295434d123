pub mod Faces
pub mod Ranks
pub mod Settled
pub mod Examples
