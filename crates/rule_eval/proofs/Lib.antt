mod Common
pub mod Counted
pub mod Folds
pub mod Operators
pub mod Ripe
pub mod Stepwise
