mod Common
pub mod Sets
pub mod Halves
pub mod Places
pub mod Reaches
pub mod Whole
