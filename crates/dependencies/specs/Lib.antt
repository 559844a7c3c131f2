pub mod Order
pub mod Promise
