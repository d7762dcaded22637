pub mod Held
pub mod Entries
pub mod Prefixes
