pub mod DemandLaws
pub mod ReadingLaws
pub mod TableLaws
