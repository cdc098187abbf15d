pub mod Handed
pub mod Reached
pub mod Turns
pub mod Sources
pub mod Moving
pub mod Lending
pub mod Doors
