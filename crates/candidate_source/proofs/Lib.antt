mod Common
pub mod Behind
pub mod Places
pub mod Turning
pub mod Sharing
pub mod Steps
pub mod Moving
pub mod Resting
pub mod Growing
pub mod Lent
