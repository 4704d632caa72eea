pub mod Verdicts
pub mod Decisions
pub mod ExactSums
pub mod Examples
