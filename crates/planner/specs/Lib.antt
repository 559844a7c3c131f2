pub mod Plan
pub mod Promise
