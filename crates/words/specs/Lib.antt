pub mod Gathered
pub mod Joined
pub mod Room
pub mod Spelled
pub mod Puts
pub mod Texts
