pub mod Rules
pub mod Taken
pub mod Families
pub mod Symbols
