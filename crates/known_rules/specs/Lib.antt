pub mod Counted
pub mod Files
pub mod Further
pub mod Lines
pub mod Masked
pub mod Rules
