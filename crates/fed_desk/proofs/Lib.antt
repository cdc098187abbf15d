pub mod Coming
pub mod Imaging
