pub mod Turbo
pub mod Full
pub mod Row
pub mod Laid
pub mod Wrong
