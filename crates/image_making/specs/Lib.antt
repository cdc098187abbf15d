pub mod AtHand
pub mod Loads
pub mod Marks
pub mod Moved
pub mod Laws
pub mod Change
