pub mod Formula
pub mod Third
pub mod Block
