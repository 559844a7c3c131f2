pub mod PreparedLaws
