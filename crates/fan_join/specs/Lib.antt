pub mod Doors
pub mod Turns
pub mod Fans
pub mod Reaching
pub mod Laws
