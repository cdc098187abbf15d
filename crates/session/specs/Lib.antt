pub mod Sessions
pub mod Restores
pub mod Codes
pub mod Holds
pub mod Inspected
