mod Common
pub mod Names
pub mod Singles
pub mod Insides
pub mod Wholes
pub mod Numbers
pub mod Lengths
pub mod Holding
pub mod Times
pub mod Quiet
