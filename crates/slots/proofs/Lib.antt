pub mod SlotLaws
pub mod ReadLaws
