pub mod Comparison
pub mod State
pub mod View
pub mod Laws
