pub mod Plain
pub mod Tests
pub mod Table
pub mod Orders
pub mod Parts
