pub mod Endings
pub mod Answers
pub mod OpenBoards
pub mod DecidedAsks
