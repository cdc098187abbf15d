mod Common
pub mod Finding
pub mod Carried
pub mod Longer
pub mod Apart
pub mod LongEnough
pub mod Lasting
pub mod Telling
