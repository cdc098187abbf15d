pub mod Shapes
pub mod Conditions
pub mod Actions
pub mod Items
pub mod Files
