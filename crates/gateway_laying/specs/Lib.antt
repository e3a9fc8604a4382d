pub mod Laid
pub mod Answer
pub mod Laying
pub mod Back
