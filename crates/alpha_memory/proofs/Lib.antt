mod Common
mod Buckets
mod Numbers
mod Listed
mod Agreeing
mod Answering
pub mod Keys
