mod Common
pub mod AskedLaws
pub mod Counts
pub mod Fields
pub mod FormLaws
pub mod Forms
pub mod Numbers
pub mod Readings
pub mod Rising
