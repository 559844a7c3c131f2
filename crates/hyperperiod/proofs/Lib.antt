pub mod MultipleLaws
