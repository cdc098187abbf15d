pub mod Objects
pub mod Facts
pub mod Firings
pub mod Answers
