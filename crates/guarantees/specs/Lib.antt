pub mod Demands
pub mod Chain
pub mod Forms
pub mod Feeding
pub mod Driving
pub mod Rows
pub mod Logging
