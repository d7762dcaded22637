pub mod Readings
pub mod Meanings
pub mod Kept
