pub mod Limits
pub mod Promise
