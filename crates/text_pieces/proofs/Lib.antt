pub mod Decimal
pub mod Example
pub mod Laws
