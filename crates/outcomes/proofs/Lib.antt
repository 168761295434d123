pub mod Laws
pub mod Tests
pub mod Rows
pub mod Calls
