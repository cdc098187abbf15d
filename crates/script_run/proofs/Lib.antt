mod Common
mod Faults
pub mod Fired
pub mod Steps
pub mod HeldText
pub mod Joined
mod LiveJoined
pub mod Kept
pub mod Limits
