pub mod Groups
pub mod Slots
