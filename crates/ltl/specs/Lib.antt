pub mod Sets
pub mod Nodes
pub mod Valuation
pub mod Closure
pub mod Realizable
pub mod Residuals
pub mod Keys
pub mod Arrays
