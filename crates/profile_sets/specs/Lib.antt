pub mod Arrays
pub mod Words
