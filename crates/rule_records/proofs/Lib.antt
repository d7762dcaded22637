pub mod Checks
pub mod Masks
pub mod Records
