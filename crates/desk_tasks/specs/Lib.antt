pub mod Tasks
pub mod Surveys
