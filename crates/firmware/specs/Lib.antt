pub mod Call
pub mod Service
