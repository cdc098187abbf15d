pub use Rattle.fx_base.specs.Lists
pub mod Found
pub mod Solvable
pub mod Tops
pub mod Tables
