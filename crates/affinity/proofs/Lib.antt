pub mod BitLaws
pub mod PermittedLaws
