pub mod PassLaws
pub mod AnswerLaws
pub mod WriteLaws
pub mod PromiseLaws
