pub mod Judging
pub mod Writing
pub mod Differing
pub mod Laws
pub mod Refusals
pub mod Asked
