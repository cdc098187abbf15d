mod Common
pub mod Touching
pub mod Calls
pub mod Past
pub mod Leaving
