pub mod Fitting
pub mod NextSize
pub mod Tiers
pub mod Fours
