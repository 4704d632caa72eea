mod RowLemmas
pub mod RowSums
mod LearningSteps
pub mod Agreement
pub mod DueRuns
pub mod FurtherRuns
pub mod FirstKnowledge
pub mod Ranges
