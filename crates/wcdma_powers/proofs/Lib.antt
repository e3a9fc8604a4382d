pub mod Steps
pub mod Halves
