mod Common
pub mod Imaged
pub mod One
pub mod Fit
