pub mod Neighbours
pub mod Examples
