pub mod Burst
pub mod Numbered
pub mod Round
pub mod Served
pub mod Standing
pub mod Started
