pub mod Machines
pub mod Reduction
