pub mod Runs
pub mod Openings
pub mod Images
