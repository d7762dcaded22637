pub mod Steps
pub mod SameSteps
pub mod Explored
