pub mod Moves
pub mod Gates
pub mod Turns
pub mod Fronts
pub mod Alike
