mod Common
pub mod Added
pub mod AgainActions
pub mod AgainChoices
pub mod AgainConditions
pub mod AgainExpressions
pub mod AgainItems
pub mod AgainShapes
pub mod Extents
pub mod Fine
pub mod ItemsAgain
pub mod ReadAgain
pub mod Spellings
