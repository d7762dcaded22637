pub mod Machine
pub mod Descent
pub mod Reading
pub mod Signs
