pub mod Groups
pub mod Grouped
