pub mod Spot
pub mod Spread
