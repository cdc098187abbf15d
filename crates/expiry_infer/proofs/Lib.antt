mod Common
pub mod Reaching
pub mod Matching
pub mod Tops
pub mod Given
