pub mod Longest
pub mod Texts
