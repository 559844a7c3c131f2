pub mod DemandLaws
pub mod ChainLaws
pub mod UnchargedLaws
pub mod FormLaws
pub mod FeedLaws
pub mod DriveLaws
pub mod RowLaws
pub mod LogLaws
