pub mod Seats
pub mod Starts
pub mod Turns
pub mod HeldBoards
pub mod RunEnds
pub mod Works
pub mod Drives
