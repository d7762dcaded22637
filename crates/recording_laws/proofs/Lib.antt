pub mod Unrefused
pub mod Answers
pub mod Laws
pub mod Examples
