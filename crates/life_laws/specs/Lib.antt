pub use Rattle.fx_base.specs.Lists
pub mod Law
pub mod Keeping
