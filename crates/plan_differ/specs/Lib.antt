pub mod Differences
pub mod Seeking
pub mod Listed
pub mod Members
pub mod Rising
