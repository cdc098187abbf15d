mod Common
pub mod Digits
pub mod Faults
pub mod Limits
