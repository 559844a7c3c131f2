pub mod TickLaws
pub mod PlainLaws
pub mod RecordLaws
pub mod AnswerLaws
