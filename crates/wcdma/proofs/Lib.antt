pub mod Law
pub mod Pads
pub mod Touched
pub mod Walks
