-- What the laws of BasicILS rest on.
pub mod SteadyLaw
pub mod Evaluations
pub mod KeepsLaw
