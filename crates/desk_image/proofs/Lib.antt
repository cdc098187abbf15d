mod Common
pub mod LivesExact
pub mod DeskExact
