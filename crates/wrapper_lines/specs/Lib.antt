pub mod Runs
pub mod ResultLines
pub mod Examples
