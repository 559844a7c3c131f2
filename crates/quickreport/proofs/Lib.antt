pub mod BackLaws
pub mod OutputLaws
