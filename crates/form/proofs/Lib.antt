pub mod ShapeLaws
pub mod LayoutLaws
