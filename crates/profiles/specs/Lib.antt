pub mod Entry
pub mod Profiles
pub mod Entered
