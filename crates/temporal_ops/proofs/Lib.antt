mod Common
pub mod Faults
pub mod Fields
pub mod Ops
pub mod Rooms
pub mod Rows
pub mod WindowOfEdges
pub mod Windows
