pub mod File
pub mod Measuring
pub mod Lengths
pub mod Storing
pub mod Listing
pub mod Whole
pub mod Back
pub mod Bad
