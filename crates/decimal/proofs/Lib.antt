pub mod BackLaws
pub mod DecimalLaws
pub mod NumberLaws
pub mod JoinLaws
pub mod OnceLaws
