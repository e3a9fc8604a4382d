pub mod Turned
pub mod Seam
