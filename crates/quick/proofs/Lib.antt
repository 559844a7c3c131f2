pub mod QuickLaws
pub mod PromiseLaws
