pub mod SafeLaws
