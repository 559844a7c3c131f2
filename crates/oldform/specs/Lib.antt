pub mod Form
pub mod Limits
