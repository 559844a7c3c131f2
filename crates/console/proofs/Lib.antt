pub mod DigitLaws
pub mod ReadLaws
pub mod WriteLaws
