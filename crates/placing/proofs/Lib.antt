pub mod PlacingLaws
