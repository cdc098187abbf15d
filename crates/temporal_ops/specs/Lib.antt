pub mod Edges
pub mod Laws
pub mod Operators
pub mod Possible
pub mod Room
pub mod Starts
pub mod Stored
pub mod Table
