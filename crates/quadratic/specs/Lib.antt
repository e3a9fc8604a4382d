pub mod Formula
pub mod Test
pub mod Whole
