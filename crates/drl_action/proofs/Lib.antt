mod Common
pub mod ActionLaws
pub mod SetterLaws
pub mod Setters
