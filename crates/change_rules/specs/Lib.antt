pub mod Staying
pub mod Judged
pub mod Checked
pub mod AsLong
pub mod Longest
pub mod Told
