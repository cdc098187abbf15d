pub mod Bucket
pub mod JoinIndex
pub mod Candidates
pub mod Places
