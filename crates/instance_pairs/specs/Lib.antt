pub mod Limits
pub mod Faults
pub mod Files
pub mod Pairs
pub mod Examples
