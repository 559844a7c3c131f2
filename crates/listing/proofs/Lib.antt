pub mod BackLaws
pub mod LineLaws
pub mod PrintedLaws
