pub mod Searches
pub mod Words
pub mod Rows
pub mod Closures
pub mod Reach
