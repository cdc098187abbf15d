pub mod Doors
pub mod Turns
pub mod Laws
