mod Common
pub mod Alone
pub mod Failures
pub mod Exact
pub mod Sound
pub mod Checked
pub mod Places
pub mod Fields
pub mod Fitting
pub mod Named
pub mod Solvable
pub mod Typed
pub mod Windows
pub mod Runnable
