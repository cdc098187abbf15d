mod Common
pub mod NameLemmas
pub mod EntryLemmas
