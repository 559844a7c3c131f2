pub mod Tests
pub mod Limits
pub mod Promise
