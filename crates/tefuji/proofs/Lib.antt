pub mod Steps
pub mod Demands
pub mod Serving
