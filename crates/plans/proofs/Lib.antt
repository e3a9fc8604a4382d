pub mod Back
pub mod Refusals
pub mod WritingLaws
