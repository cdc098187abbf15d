mod Common
pub mod Turns
pub mod ShapeLaws
pub mod NameLaws
pub mod Carried
