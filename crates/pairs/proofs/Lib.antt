pub mod PairLaws
pub mod FitLaws
