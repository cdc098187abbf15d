mod Common
pub mod WordLaws
pub mod ValueLaws
pub mod PartLaws
pub mod PatternLaws
pub mod FoldLaws
pub mod ConditionLaws
pub mod ChoiceSteps
pub mod ChoiceLaws
