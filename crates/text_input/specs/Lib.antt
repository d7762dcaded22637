pub mod Given
pub mod EventDigits
