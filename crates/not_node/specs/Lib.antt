pub mod Doors
pub mod Moments
pub mod Waiting
pub mod Rows
pub mod Laws
