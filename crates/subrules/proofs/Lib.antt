mod Common
pub mod FieldLaws
pub mod SizeLaws
pub mod NestingLaws
pub mod HierarchyLaws
pub mod KindLaws
pub mod KnownLaws
pub mod HeirLaws
pub mod OneWay
pub mod FrontLaws
