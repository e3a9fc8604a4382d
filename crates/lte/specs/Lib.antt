pub mod Standard
pub mod Table
pub mod Factors
pub mod Accepted
pub mod Admits
