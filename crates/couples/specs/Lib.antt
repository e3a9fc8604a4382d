pub mod Formula
pub mod Four
pub mod Law
pub mod Symbols
pub mod Test
