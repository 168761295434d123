pub mod Tests
pub mod Languages
pub mod Steps
