pub mod Demands
pub mod Reading
pub mod Promise
pub mod Table
