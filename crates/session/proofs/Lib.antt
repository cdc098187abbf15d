mod Common
mod OfImage
mod Stops
mod Answering
mod Questions
