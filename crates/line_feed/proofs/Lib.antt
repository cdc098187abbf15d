mod Common
pub mod Fronts
pub mod Pieces
pub mod Feeding
pub mod Behind
