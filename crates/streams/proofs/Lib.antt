pub mod Burst
pub mod Condition3
pub mod Ready
pub mod Refusals
