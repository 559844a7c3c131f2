pub mod Starts
pub mod Promise
