mod Common
pub mod Versions
pub mod Counting
pub mod Neighbours
pub mod Ranges
pub mod Slotting
pub mod Meeting
pub mod Siding
pub mod Naming
