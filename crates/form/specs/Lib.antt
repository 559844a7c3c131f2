pub mod Layout
pub mod Shape
