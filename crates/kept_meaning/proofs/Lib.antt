mod Common
pub mod Decided
pub mod Versions
