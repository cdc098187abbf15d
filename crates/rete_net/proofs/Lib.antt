mod Common
mod Turning
mod Turns
pub mod Cleaning
mod Chaining
mod Beside
mod Growing
mod Frames
mod Counted
mod Advancing
mod Quieting
mod Seen
mod Starting
mod Forgets
mod Sparing
mod Fading
mod Dropping
mod Listing
mod Fewer
pub mod Unmissed
mod Answering
mod Skipping
mod Places
mod Ranged
mod Listed
mod Lone
mod Gating
mod Timing
mod Scheduling
mod Walking
mod Steady
mod Showing
mod Siblings
mod Idle
mod Fanned
mod Fanning
pub mod Fanwise
pub mod Networks
mod Lading
mod Seated
mod Telling
pub mod Owning
pub mod Counting
mod Searched
mod Loaded
mod Sharing
mod Resumed
mod Filled
mod Filling
mod Grouped
mod Lent
mod Reached
pub mod Lending
pub mod Passing
mod Alone
mod Stocked
mod Sourced
mod Turned
mod Rescheduled
pub mod Stillness
mod Forgone
mod Spared
pub mod Kinship
pub mod Fresh
