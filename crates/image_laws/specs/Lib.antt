pub mod Images
pub mod Fitting
