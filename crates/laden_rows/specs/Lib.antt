pub mod Extras
pub mod Laden
pub mod Placed
