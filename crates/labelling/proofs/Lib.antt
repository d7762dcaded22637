pub mod Marks
pub mod Computed
