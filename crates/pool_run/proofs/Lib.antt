pub mod StartedRuns
pub mod TurnSteps
pub mod MadeRuns
pub mod DriveTurns
pub mod DriveEnds
pub mod DrivenBoards
pub mod WorkedSeats
pub mod ToldBoards
