pub mod Windows
pub mod Standing
pub mod Pieces
