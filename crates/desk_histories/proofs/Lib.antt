pub mod Rows
pub mod Counts
pub mod Answers
pub mod Moves
pub mod Turns
pub mod Histories
pub mod Sharp
pub mod Edges
