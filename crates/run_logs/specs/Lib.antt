pub mod LoggedRuns
pub mod LoggedCosts
