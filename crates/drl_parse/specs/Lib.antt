pub mod Items
pub mod Lines
pub mod Parsed
pub mod Reading
