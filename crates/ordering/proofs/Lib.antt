pub mod PlainOrder
pub mod OrderLaws
