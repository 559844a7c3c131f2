pub mod Shown
pub mod Ascii
