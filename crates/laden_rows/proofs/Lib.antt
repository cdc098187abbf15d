mod Common
pub mod Kept
pub mod Extras
pub mod Gathered
pub mod Rows
pub mod Naming
