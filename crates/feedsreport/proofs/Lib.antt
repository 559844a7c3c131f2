pub mod BackLaws
pub mod LineLaws
pub mod OutputLaws
pub mod SplitLaws
