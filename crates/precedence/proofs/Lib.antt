pub mod CircleLaws
pub mod OrderLaws
pub mod ReadyLaws
pub mod SequenceLaws
pub mod WidthLaws
