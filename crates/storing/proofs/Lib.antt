pub mod StoreLaws
pub mod StorableLaws
