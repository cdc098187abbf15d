mod Common
pub mod Knowing
pub mod Moved
pub mod Shown
pub mod Folding
pub mod Turning
pub mod Telling
pub mod Staying
pub mod Quietness
pub mod Still
pub mod Forgetting
pub mod Beyond
pub mod Loading
pub mod Lending
pub mod Untouched
pub mod Resuming
pub mod Lines
