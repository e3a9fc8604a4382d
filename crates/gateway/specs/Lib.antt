pub mod Answers
pub mod Turning
pub mod Telling
