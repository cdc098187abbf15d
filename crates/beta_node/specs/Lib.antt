pub mod Doors
pub mod Nodes
pub mod Turns
pub mod Quiet
pub mod Forgetting
pub mod Loading
pub mod Lending
