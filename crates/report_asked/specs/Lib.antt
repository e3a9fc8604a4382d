pub mod Lines
pub mod Asked
pub mod Split
pub mod Answers
pub mod Digits
pub mod Joined
pub mod Settled
pub mod Exactly
