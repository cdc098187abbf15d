mod Common
pub mod Arguments
pub mod Flagged
pub mod Parameters
pub mod Timed
pub mod Loops
