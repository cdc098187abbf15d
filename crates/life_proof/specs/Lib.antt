pub mod Asked
pub mod Tables
pub mod Good
pub mod Solved
pub mod Laws
