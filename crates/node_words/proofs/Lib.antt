pub mod Lanewise
pub mod Lanes
