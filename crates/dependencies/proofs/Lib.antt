pub mod PromiseLaws
pub mod SameLaws
pub mod EmptyLaws
