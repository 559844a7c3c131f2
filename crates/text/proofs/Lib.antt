pub mod ClipLaws
