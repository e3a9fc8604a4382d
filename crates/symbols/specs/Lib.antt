pub mod Wide
pub mod Answer
pub mod Passed
pub mod Laws
pub mod Blind
pub mod Refusals
