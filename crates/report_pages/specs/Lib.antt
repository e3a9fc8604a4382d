pub mod Text
pub mod Lines
pub mod Answered
pub mod Spelled
pub mod Taken
