mod Common
pub mod Commands
pub mod QuestionLaws
