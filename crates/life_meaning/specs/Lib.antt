pub use Rattle.fx_base.specs.Lists
pub mod Networks
pub mod Reach
pub mod Lifetimes
pub mod Tables
