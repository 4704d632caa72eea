pub mod ToyRuns
pub mod ToyFiles
