pub mod Orders
pub mod Exactly
pub mod Choosing
pub mod Ranking
pub mod Worked
pub mod Words
