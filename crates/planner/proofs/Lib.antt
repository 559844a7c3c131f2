pub mod PlanLaws
pub mod PromiseLaws
