mod Common
pub mod Places
pub mod Tests
pub mod Rows
pub mod Matching
pub mod Marking
pub mod Changing
pub mod Stepping
pub mod Carrying
pub mod Telling
