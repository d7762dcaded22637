pub mod Loops
pub mod Pigeonhole
pub mod Tests
pub mod Joined
pub mod Stores
pub mod Pointwise
