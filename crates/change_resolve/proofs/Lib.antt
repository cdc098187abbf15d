mod Common
pub mod Places
pub mod Merging
pub mod Fitting
