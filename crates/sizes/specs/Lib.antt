pub mod Size
pub mod Tests
pub mod Listed
pub mod Admits
pub mod Fit
