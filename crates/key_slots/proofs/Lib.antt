pub mod Lists
pub mod Entering
