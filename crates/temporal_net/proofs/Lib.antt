mod Common
pub mod Adding
pub mod Bounds
pub mod Costs
pub mod Cycles
pub mod Fewest
pub mod Firsts
pub mod Heights
pub mod Phases
pub mod Places
pub mod Potentials
pub mod Solved
pub mod Sums
pub mod Ways
