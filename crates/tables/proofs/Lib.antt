pub mod Passed
pub mod Refusals
