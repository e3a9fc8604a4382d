pub mod Form
pub mod Meets
pub mod Gapless
pub mod Lists
pub mod Right
pub mod Planned
