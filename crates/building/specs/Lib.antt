pub mod Build
pub mod Running
