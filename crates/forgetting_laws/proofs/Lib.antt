mod Common
pub mod Naming
pub mod Before
pub mod Forgotten
pub mod Stepping
pub mod Firing
pub mod Covering
pub mod Seeing
pub mod WorldSteps
pub mod Agreeing
pub mod Closing
