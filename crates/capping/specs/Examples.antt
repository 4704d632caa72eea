-- Verdicts, worked on small asks.
pub mod Verdicts
