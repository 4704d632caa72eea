pub mod ExactSums
pub mod WalkEnds
pub mod RepliedCosts
pub mod NeededRuns
pub mod WalkAborts
mod LearntAnswers
pub mod Promises
mod FrontVerdicts
pub mod OtherCells
pub mod AbortVerdicts
