pub mod Periods
pub mod Tests
