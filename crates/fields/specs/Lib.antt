pub mod Fields
pub mod Most
pub mod Hyperperiod
pub mod Tests
pub mod Limits
