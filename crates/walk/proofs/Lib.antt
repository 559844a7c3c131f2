pub mod State
pub mod Choices
