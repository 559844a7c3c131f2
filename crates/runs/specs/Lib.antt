pub mod Runs
pub mod Fit
pub mod Lent
pub mod Log
