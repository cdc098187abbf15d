pub mod Faults
pub mod Networks
pub mod Potentials
pub mod Tables
