mod Common
pub mod Rising
pub mod Sorting
pub mod ResultLemmas
pub mod LawLemmas
pub mod Multisets
pub mod TotalLemmas
pub mod Ends
