pub mod Finite
pub mod Heard
