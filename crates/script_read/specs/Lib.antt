pub mod Blank
pub mod Given
pub mod Rising
pub mod Members
pub mod Form
pub mod Asked
pub mod Flat
