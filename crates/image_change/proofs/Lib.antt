mod Common
pub mod Lists
pub mod Owners
pub mod Matched
pub mod Told
pub mod Forgotten
pub mod Kept
pub mod Lost
pub mod Counted
pub mod Changed
pub mod One
