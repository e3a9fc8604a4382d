pub mod Form
pub mod Limits
pub mod Places
pub mod Testing
pub mod Gateways
pub mod Back
