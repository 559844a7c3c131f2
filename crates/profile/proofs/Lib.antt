pub mod ListLaws
pub mod TestLaws
