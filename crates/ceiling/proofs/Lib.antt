pub mod FreeLaws
pub mod PromiseLaws
