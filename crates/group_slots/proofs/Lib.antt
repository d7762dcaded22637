pub mod Comparing
pub mod Ranges
pub mod Slots
