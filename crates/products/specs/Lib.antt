pub mod Products
pub mod Formulas
