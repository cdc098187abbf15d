pub mod Observed
pub mod Operators
pub mod Programs
pub mod Laws
