pub mod BusLaws
pub mod PromiseLaws
