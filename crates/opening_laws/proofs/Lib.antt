pub mod Answers
pub mod States
pub mod Desks
pub mod Examples
