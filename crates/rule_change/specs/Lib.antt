pub mod Changed
pub mod Refused
pub mod Alike
pub mod Told
pub mod Lives
