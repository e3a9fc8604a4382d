pub mod Admits
pub mod Carried
pub mod Handed
pub mod Listed
pub mod OneRow
pub mod Refusals
pub mod Wimax
