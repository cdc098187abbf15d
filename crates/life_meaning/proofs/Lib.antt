mod Common
pub mod Limits
pub mod Safe
