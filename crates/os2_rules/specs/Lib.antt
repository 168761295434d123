pub mod Bits
pub mod Rules
pub mod Tests
pub mod Examples
