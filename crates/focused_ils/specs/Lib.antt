pub mod Counts
pub mod Comparison
pub mod State
pub mod Questions
pub mod View
pub mod Laws
