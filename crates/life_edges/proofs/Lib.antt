mod Common
pub mod Places
pub mod Solutions
pub mod Solved
pub mod Fitting
pub mod Distances
pub mod Scopes
pub mod Runnable
