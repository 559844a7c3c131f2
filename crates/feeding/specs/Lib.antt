pub mod Tests
pub mod Limits
