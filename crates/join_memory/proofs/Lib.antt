mod Common
pub mod Lasts
pub mod Joining
pub mod Valued
pub mod Keeping
pub mod Turning
pub mod Found
pub mod Worlds
pub mod Steps
pub mod Moving
pub mod Listing
pub mod Sharing
pub mod Handed
