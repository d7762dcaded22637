pub mod Laws
pub mod Passes
pub mod Nexts
pub mod Surveys
pub mod Tables
