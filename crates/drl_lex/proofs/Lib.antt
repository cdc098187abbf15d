mod Common
mod Capped
mod CommentLaws
pub mod FileLaws
mod FileTurns
mod FrontLaws
mod LeadLaws
mod MarkLaws
mod PieceLaws
mod PiecesAgain
mod RunLaws
mod TextLaws
mod TextTurns
mod TimeLaws
mod Utf8
