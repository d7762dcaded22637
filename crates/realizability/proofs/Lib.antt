pub mod Labels
pub mod Gathers
pub mod Walks
pub mod Alone
