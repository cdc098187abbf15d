mod Common
pub mod Pairs
pub mod Ripe
pub mod Maturing
pub mod Lawful
pub mod Quiet
