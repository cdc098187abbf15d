mod Common
pub mod Basics
pub mod Flagged
pub mod Still
pub mod Shifts
pub mod Transfers
pub mod Anchors
pub mod Places
pub mod Moves
pub mod Laws
pub mod Keeps
pub mod Matched
pub mod Remains
