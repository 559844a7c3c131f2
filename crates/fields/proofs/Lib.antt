pub mod HyperperiodLaws
pub mod LimitLaws
