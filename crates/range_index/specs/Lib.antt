pub mod Nodes
pub mod Ranges
