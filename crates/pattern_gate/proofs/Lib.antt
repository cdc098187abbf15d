mod Common
pub mod Turning
pub mod Arriving
pub mod Inside
pub mod Moving
pub mod Fronts
pub mod Alike
