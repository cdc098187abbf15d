pub mod CodeNames
pub mod Events
pub mod Worlds
pub mod Kinds
pub mod Typed
pub mod Lawful
pub mod Programs
