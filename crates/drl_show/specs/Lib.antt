pub mod Canonical
pub mod Shown
pub mod Texts
