pub mod Uses
pub mod Kinds
pub mod Times
pub mod Asked
