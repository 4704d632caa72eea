pub mod Knowledge
pub mod Learning
pub mod Caches
pub mod Fronts
pub mod Runs
pub mod Examples
