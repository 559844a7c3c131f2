pub mod Multiple
