pub mod Limits
pub mod Bounds
pub mod Costs
