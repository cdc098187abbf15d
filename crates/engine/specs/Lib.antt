pub mod Answers
pub mod Counts
pub mod Known
pub mod KeptFacts
pub mod WorldCounts
