-- What the laws of FocusedILS rest on.
pub mod Counting
pub mod Tallies
pub mod SteadyLaw
pub mod Evaluations
pub mod Turns
pub mod KeepsLaw
