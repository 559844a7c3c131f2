pub mod CauseLaws
pub mod TestLaws
pub mod ConditionLaws
