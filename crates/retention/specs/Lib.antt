pub mod Retentions
pub mod Watching
pub mod RetentionLaws
