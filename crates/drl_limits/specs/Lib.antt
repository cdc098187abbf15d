pub mod Room
pub mod Limits
