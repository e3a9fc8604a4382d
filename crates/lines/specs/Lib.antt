pub mod Appended
pub mod Words
