pub mod Numbers
pub mod Hashes
pub mod Outcomes
pub mod Files
pub mod Seats
pub mod Examples
