pub mod Members
pub mod Reaching
