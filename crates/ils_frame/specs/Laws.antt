-- What the laws of the search over any comparer rest on.
pub mod NextSteps
pub mod AllowedConfigs
pub mod AllowedDraws
pub mod TurnsLeft
pub mod MachineInvariant
pub mod SteadyLaw
pub mod StandsFor
pub mod SameAsks
pub mod FollowsLaw
