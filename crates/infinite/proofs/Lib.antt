pub mod Twins
pub mod SameOverAll
pub mod Needed
