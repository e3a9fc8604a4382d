pub mod Sum
pub mod Report
pub mod Sized
pub mod Figured
pub mod Summing
pub mod Refusals
pub mod Whole
