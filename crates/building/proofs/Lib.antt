pub mod Right
pub mod Running
