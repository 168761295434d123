pub mod Firsts
pub mod Outcomes
