pub mod Columns
pub mod Valued
pub mod Entries
