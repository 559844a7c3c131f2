pub mod Slots
pub mod Earliest
pub mod Tick
pub mod Fresh
pub mod Book
pub mod Guarantee
