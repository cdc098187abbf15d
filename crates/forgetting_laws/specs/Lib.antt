pub mod Sights
pub mod Steps
pub mod Firings
pub mod Covering
pub mod WorldSights
pub mod Tables
