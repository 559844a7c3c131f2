pub mod Paths
pub mod Order
pub mod Circles
pub mod Sequence
