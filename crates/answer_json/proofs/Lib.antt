pub mod Floats
pub mod Depths
pub mod Ends
