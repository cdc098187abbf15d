pub mod Kept
pub mod Pending
pub mod Sorting
