mod Common
pub mod Ahead
pub mod Stops
pub mod Asking
