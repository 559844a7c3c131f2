pub mod Quick
pub mod Promise
