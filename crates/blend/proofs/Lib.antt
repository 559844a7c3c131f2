pub mod OneEntry
pub mod OneCore
