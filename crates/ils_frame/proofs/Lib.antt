pub mod CountedCosts
pub mod KeptIncumbents
mod PerturbationSteps
mod UpcomingLemmas
mod MachineBegin
mod OneMoreReply
