pub mod Table
pub mod Builder
