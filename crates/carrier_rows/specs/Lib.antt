pub mod Row
pub mod Along
pub mod Straight
