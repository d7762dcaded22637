pub mod Follow
pub mod Descending
pub mod Parsing
pub mod Fitting
pub mod Faults
pub mod Texts
pub mod Trees
pub mod Examples
