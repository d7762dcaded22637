pub mod Lines
pub mod Masks
pub mod Known
pub mod Faults
pub mod Printed
pub mod Counts
