mod Common
pub mod Turning
pub mod Following
pub mod Parts
pub mod Stepping
pub mod Handing
pub mod Counting
pub mod Gathering
pub mod Lawful
pub mod Extras
pub mod Leaving
pub mod Searching
pub mod Loading
pub mod Beside
pub mod Resuming
