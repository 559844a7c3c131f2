pub mod BesideLaws
pub mod PutLaws
