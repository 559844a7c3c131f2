pub mod AuditLaws
pub mod PaintLaws
pub mod PromiseLaws
