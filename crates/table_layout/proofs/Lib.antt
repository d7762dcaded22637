pub mod Form
pub mod Bits
pub mod Masks
