pub mod Outcome
pub mod Causes
pub mod CauseTable
pub mod Tests
pub mod Conditions
