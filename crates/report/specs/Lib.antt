pub mod Output
pub mod VerdictTable
pub mod Reported
