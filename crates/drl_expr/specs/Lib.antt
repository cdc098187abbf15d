pub mod Exact
pub mod Grammar
pub mod Nodes
pub mod Reading
pub mod Tree
pub mod TreeCode
pub mod Words
