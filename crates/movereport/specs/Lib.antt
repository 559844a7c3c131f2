pub mod Output
pub mod Reported
