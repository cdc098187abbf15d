mod Computing
pub mod Accepted
