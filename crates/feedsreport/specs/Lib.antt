pub mod Split
pub mod Output
pub mod Reported
