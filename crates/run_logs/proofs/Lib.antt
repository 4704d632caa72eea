pub mod LoggedRuns
pub mod LoggedCosts
pub mod LoggedBoards
