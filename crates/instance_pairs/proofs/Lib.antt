mod InstanceCounts
mod LineInstances
mod Places
mod Rounds
pub mod SamePairs
