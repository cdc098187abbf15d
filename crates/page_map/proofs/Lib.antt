mod Common
pub mod Changes
pub mod Kept
pub mod Listed
pub mod Moved
pub mod Rows
pub mod Written
