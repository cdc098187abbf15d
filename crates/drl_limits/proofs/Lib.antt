mod Common
pub mod Rooms
