pub mod Ceiling
pub mod Promise
