pub mod SlotMore
pub mod SweepLaws
