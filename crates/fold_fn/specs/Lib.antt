pub mod Order
pub mod Results
pub mod Laws
pub mod Held
