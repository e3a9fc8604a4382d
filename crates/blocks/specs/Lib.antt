pub mod Answer
pub mod Passed
pub mod Laws
pub mod Refusals
pub mod Wrong
