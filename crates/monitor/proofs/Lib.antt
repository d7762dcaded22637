pub mod Reading
pub mod Walking
pub mod Writing
pub mod Construction
