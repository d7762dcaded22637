pub mod Reduced
pub mod Counting
pub mod Grouping
pub mod Quotient
