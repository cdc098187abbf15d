pub mod Exact
pub mod Reading
