pub mod Answers
pub mod Rights
