pub mod RunLaws
pub mod FitLaws
pub mod LogLaws
pub mod UnfitLaws
pub mod LentLaws
