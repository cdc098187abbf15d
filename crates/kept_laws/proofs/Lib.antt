mod Common
pub mod Coming
pub mod Staying
pub mod Later
pub mod Windows
