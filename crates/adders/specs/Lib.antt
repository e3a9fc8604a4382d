pub mod Lengths
pub mod Any
pub mod Lines
pub mod Judging
pub mod Adding
