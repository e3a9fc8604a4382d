pub mod Passed
pub mod Refusals
pub mod Served
