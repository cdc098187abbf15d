pub mod Run
pub mod Saves
pub mod Parts
pub mod Unfinished
pub mod Prompt
pub mod Faults
pub mod Turns
