pub mod Example
pub mod Laws
