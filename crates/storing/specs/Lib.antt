pub mod Lent
pub mod Promise
