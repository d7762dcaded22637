pub mod Laws
pub mod Trees
