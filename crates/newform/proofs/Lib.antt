pub mod BackLaws
pub mod NewLaws
