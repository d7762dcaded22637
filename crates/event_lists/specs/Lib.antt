pub mod Bounds
pub mod Masks
