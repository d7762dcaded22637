pub mod Words
pub mod Tables
pub mod Halves
pub mod Spreads
