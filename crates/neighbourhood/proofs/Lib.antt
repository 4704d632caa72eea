mod Exchanges
mod NeighbourCounts
mod ParamCounts
pub mod Soundness
