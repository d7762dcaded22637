pub mod Explore
