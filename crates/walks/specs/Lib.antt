pub mod Answer
pub mod Passed
pub mod Lists
pub mod Calls
pub mod Whole
pub mod Refusals
pub mod Wrong
