mod Common
pub mod Holding
pub mod Ends
pub mod Joined
mod Kept
pub mod Naming
mod Valued
pub mod Whole
pub mod Alike
pub mod Partners
