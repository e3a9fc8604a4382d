pub mod Enough
pub mod Law
pub mod Needed
