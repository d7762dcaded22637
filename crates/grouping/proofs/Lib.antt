pub mod Laws
pub mod Front
pub mod Clearing
pub mod Reductions
pub mod Arrays
